pub mod Holders
pub mod Changes
pub mod Numbers
pub mod Marks
