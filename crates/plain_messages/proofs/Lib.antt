pub mod Changing
pub mod Receiving
