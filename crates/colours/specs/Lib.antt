pub mod Colours
pub mod Inner
