pub mod Laws
pub mod Expand
pub mod Index
pub mod Filling
