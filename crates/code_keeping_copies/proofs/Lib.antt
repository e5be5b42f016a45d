pub mod Cloning
pub mod Freezing
pub mod Parts
pub mod ReadOnly
pub mod Reaching
