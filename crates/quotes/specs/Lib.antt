pub mod Quotes
pub mod Stages
