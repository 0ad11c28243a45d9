pub mod Demand1
pub mod Demand3
pub mod Contact
pub mod Surviving
pub mod Chains
pub mod Origins
pub mod Blame
pub mod Repair
