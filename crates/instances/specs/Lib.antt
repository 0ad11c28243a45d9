pub mod Cases
pub mod Rehearsals
