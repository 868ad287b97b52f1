pub mod Float64
pub mod Inner
