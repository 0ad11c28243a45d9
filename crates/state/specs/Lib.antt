pub mod Layout
pub mod Entries
pub mod Evaluation
pub mod WellFormed
pub mod Standing
pub mod Formed
pub mod Walks
