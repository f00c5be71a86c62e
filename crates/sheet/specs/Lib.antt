pub mod Sheet
pub mod Lent
pub mod Stages
pub mod Turns
