pub mod Orders
pub mod Accepted
