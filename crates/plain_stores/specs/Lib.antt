pub mod Changes
pub mod Operands
pub mod Questions
