pub mod LpTokens
pub mod Edges
pub mod InTurn
