pub mod Counters
pub mod Booking
pub mod Locked
pub mod Stages
