pub mod ColourFile
pub mod PixelBytes
