pub mod Operations
pub mod Kept
pub mod Spawning
pub mod Stepping
pub mod GoingOn
pub mod Safe
