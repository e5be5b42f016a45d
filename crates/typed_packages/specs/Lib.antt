pub mod Naming
pub mod Packages
