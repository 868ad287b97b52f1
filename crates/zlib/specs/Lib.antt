pub mod Adler
pub mod Stream
pub mod Inner
