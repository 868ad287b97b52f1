pub mod Checksum
pub mod Numbers
