pub mod Wholes
pub mod Asking
pub mod Ordering
pub mod Ending
pub mod Choosing
