pub mod HeadKinds
pub mod Sizes
