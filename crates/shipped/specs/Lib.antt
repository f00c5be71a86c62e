pub mod Openings
pub mod Library
pub mod Written
pub mod Day
pub mod DayMemory
pub mod Mixed
pub mod Register
pub mod Slicing
