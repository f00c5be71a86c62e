pub mod Reading
pub mod Changing
