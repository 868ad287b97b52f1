pub mod Directory
pub mod Accepted
pub mod Inner
