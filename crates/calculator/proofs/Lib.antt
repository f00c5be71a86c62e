pub mod Swaps
pub mod FairSwaps
pub mod InTurn
