pub mod Liquidity
pub mod Stages
