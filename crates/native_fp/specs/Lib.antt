pub mod NativeFp
pub mod Inner
