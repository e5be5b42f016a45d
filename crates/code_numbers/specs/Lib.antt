pub mod inner
pub mod Traps
