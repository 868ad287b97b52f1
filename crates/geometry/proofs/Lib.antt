pub mod Cutting
pub mod Costing
