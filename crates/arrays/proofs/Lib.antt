pub mod Samples
pub mod Steps
