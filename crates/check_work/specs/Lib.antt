pub mod Blocks
pub mod Choices
pub mod Parts
pub mod Seen
pub mod Updates
pub mod Views
