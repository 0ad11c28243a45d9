pub mod Counts
pub mod Scratch
pub mod Calls
pub mod Answers
pub mod Prepared
pub mod Accepted
