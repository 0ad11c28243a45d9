pub mod Values
pub mod Truths
