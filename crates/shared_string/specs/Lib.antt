pub mod Behind
pub mod Ownership
pub mod Whole
