pub mod Messages
pub mod Traces
pub mod Written
