pub mod Words
pub mod Bounds
pub mod Floored
pub mod Examples
pub mod Orders
