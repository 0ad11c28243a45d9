pub mod Text
pub mod Lines
pub mod Sizes
pub mod Writing
pub mod Pages
