pub mod Inspection
pub mod Inner
