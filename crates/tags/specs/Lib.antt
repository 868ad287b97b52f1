pub mod Slots
pub mod Tags
pub mod Inner
