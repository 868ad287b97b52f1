pub mod Holding
pub mod Rows
pub mod Stores
pub mod Uv
