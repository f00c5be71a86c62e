pub mod Calculator
pub mod Stages
