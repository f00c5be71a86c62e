pub mod Called
pub mod Seated
pub mod Changed
pub mod Opened
pub mod Written
