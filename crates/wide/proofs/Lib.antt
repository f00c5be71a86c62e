pub mod Halves
pub mod Words
