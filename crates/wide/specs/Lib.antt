pub mod Value
pub mod Steps
