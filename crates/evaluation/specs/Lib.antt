pub mod Situated
pub mod Parties
pub mod Reading
pub mod Sets
