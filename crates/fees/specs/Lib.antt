pub mod Fees
pub mod Parts
