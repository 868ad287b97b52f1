pub mod Several
pub mod Blocks
pub mod Rows
