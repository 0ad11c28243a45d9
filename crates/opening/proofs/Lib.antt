pub mod Accepting
pub mod Opened
