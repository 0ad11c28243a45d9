pub mod Tests
pub mod Below
pub mod Numbers
pub mod KeySets
pub mod Lists
pub mod Writing
pub mod NodeKinds
