pub mod Sizes
pub mod Placing
pub mod Pictures
pub mod Painted
pub mod Painting
