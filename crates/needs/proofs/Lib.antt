pub mod Agreeing
pub mod Members
pub mod Running
