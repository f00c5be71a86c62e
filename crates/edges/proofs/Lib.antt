pub mod Closed
pub mod Edges
pub mod Example
pub mod FreeDays
pub mod Hundred
pub mod NoCharge
pub mod WithinLength
