pub mod Begun
pub mod Linked
pub mod Sources
