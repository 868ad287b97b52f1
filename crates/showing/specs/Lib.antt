pub mod Shown
pub mod Inner
