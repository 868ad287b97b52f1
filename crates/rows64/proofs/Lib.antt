pub mod Samples
pub mod Places
pub mod Written
pub mod Plain
