pub mod Pushing
pub mod Removing
