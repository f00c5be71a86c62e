pub mod Lines
pub mod Holding
pub mod Answering
pub mod Taking
pub mod Leaving
pub mod GoesOn
pub mod Bounds
