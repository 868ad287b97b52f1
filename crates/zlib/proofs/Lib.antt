pub mod Adlers
pub mod Streams
