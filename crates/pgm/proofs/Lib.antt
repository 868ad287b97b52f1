pub mod Decimals
pub mod GreyFile
