pub mod Finding
pub mod Changing
pub mod Judging
