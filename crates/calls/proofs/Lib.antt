pub mod Decisions
pub mod InRing
pub mod Entries
pub mod Refusals
pub mod FairCalls
pub mod Within
pub mod Unfolded
