pub mod Effects
pub mod Library
pub mod Rows
pub mod Steps
