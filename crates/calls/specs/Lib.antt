pub mod Next
pub mod Registered
pub mod Refused
