pub mod Compiling
pub mod Packages
pub mod Programs
pub mod Questions
pub mod Refusals
pub mod Runs
pub mod Texts
