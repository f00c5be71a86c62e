pub mod Charge
pub mod Transfers
pub mod Least
pub mod Stages
