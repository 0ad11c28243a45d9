pub mod Reading
pub mod Measures
pub mod Steps
pub mod Wholes
