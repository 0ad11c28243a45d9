pub mod Answers
pub mod Requests
pub mod Stepping
pub mod Whole
pub mod Running
