pub mod Putting
pub mod Wanting
