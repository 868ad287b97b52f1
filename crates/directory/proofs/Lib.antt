pub mod Directories
pub mod Accepted
