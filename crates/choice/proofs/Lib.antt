pub mod Chosen
pub mod Picking
pub mod Turning
pub mod Gaps
pub mod Collecting
pub mod Telling
pub mod Searching
