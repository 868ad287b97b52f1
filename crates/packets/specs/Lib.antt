pub mod Packets
pub mod Inner
