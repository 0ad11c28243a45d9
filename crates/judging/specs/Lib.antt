pub mod Guards
pub mod Outcomes
pub mod Judging
pub mod Residuals
