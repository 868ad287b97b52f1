pub mod Filled
pub mod Parts
