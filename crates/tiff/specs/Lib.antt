pub mod Walk
pub mod Accepted
