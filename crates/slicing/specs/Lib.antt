pub mod Slicing
pub mod Worked
