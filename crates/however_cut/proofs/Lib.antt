pub mod Alike
pub mod Cuts
