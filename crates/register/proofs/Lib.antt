pub mod Search
pub mod Once
pub mod Pairs
pub mod Walk
pub mod Back
pub mod Rising
pub mod Laws
pub mod Valid
