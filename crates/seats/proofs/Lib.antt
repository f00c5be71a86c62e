pub mod Sought
pub mod Seats
pub mod Changes
