pub mod Digits
pub mod Long
