pub mod Caps
pub mod Cells
pub mod Levels
pub mod Visiting
pub mod Walking
pub mod Fullness
pub mod Answering
