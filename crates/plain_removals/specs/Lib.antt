pub mod Members
pub mod Removals
