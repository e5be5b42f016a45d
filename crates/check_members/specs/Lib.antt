pub mod Only
pub mod Stored
pub mod Taken
