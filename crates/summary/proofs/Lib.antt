pub mod Greys
pub mod Tallies
