pub mod Clearing
pub mod ClearedRows
