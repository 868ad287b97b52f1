pub mod Checking
pub mod Fees
