pub mod Chosen
pub mod Picks
pub mod Turns
pub mod Writing
pub mod Marking
pub mod Outcomes
