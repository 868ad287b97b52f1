pub mod Rows64
pub mod Inner
