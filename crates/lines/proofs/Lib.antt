pub mod Writing
pub mod Pages
pub mod Parts
pub mod Each
pub mod Decimal
pub mod Sizes
pub mod Examples
