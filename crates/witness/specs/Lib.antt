pub mod Seen
pub mod Falls
pub mod Errors
