pub mod Picture
pub mod Accepted
pub mod Index
