pub mod Segment
pub mod Inner
