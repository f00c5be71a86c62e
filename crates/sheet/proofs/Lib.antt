pub mod Picks
pub mod Taken
pub mod Asks
pub mod Effects
pub mod Within
