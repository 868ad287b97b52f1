pub mod Grey
pub mod Marks
