pub mod Calls
pub mod Causes
pub mod Input
pub mod Ints
pub mod Parts
