pub mod Pieces
pub mod Lent
pub mod Stages
