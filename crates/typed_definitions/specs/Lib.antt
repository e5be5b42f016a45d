pub mod Acting
pub mod Functions
pub mod Initials
