pub mod Acting
pub mod Gaining
