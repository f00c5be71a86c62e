pub mod Slices
pub mod Worked
