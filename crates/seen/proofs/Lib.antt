pub mod Blocks
pub mod Words
pub mod Alike
pub mod Maps
pub mod Own
pub mod Arrivals
