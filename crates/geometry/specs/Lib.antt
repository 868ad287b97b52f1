pub mod Geometry
pub mod Costs
pub mod Inner
