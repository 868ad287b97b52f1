pub mod Profile
pub mod Accepted
pub mod Inner
