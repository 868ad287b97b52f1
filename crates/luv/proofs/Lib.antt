pub mod Pixels
pub mod Index
pub mod Scattering
