pub mod Front
pub mod Accepted
pub mod Inner
