pub mod ConstantProduct
pub mod Stages
pub mod InTurn
