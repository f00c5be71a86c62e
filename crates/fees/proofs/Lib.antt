pub mod Shares
pub mod Edges
pub mod Parts
