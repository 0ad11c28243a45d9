pub mod Every
pub mod Joining
pub mod Starting
