pub mod Pixels
pub mod PngFile
