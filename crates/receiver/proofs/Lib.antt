pub mod Receiving
pub mod Replaying
