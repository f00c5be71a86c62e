pub mod Rest
pub mod FarEnds
pub mod Parts
