pub mod Moves
pub mod Turns
pub mod Stamps
pub mod History
pub mod Machine
pub mod Blame
pub mod Repair
pub mod Agreement
