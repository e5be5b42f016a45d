pub mod Applying
pub mod Fields
pub mod Stopping
