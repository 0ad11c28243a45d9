pub mod Answers
pub mod Shelving
