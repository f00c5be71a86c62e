pub mod Lent
pub mod Stages
