pub mod Showing
pub mod Claims
