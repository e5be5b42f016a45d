pub mod Entries
pub mod Lookups
pub mod Operands
pub mod Rows
