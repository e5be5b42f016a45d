mod Adding
mod Expressions
mod Filling
mod Members
mod Noting
mod Statements
pub mod Units
