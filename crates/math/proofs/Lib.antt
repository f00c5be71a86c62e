pub mod Rounding
pub mod Halving
pub mod Curve
pub mod Parts
