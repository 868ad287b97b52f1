pub mod Numbers
pub mod Placing
