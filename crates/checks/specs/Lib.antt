pub mod Agreement
pub mod Checks
pub mod Questions
