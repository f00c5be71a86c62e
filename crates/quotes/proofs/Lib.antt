pub mod Chain
pub mod Sides
pub mod Answers
pub mod Laws
