pub mod Lent
pub mod Sets
pub mod Gains
pub mod Performs
