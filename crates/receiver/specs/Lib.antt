pub mod Receiver
pub mod Inner
