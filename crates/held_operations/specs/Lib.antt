pub mod Constructs
pub mod Operation
