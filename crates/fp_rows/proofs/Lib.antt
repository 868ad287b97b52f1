pub mod Summing
pub mod Gathering
pub mod RowByRow
