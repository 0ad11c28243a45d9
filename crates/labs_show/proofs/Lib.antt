pub mod Rehearsals
pub mod Shown
pub mod Enough
pub mod Printed
