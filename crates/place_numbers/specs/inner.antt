pub mod Changing
pub mod Parts
