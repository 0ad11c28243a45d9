pub mod Below
pub mod Numbers
pub mod Bytes
pub mod Read
pub mod KeySets
pub mod Kinds
pub mod NodeKinds
