pub mod Faces
pub mod Determined
