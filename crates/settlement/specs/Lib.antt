pub mod Settlement
pub mod Stages
