pub mod Results
pub mod Packing
pub mod Unpacking
