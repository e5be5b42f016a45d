pub mod Completed
pub mod Limits
