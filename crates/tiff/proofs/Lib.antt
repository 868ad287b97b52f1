pub mod Pages
pub mod Accepted
