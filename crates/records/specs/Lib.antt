pub mod Crc
pub mod Records
