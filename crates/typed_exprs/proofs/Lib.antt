mod ActionLaw
mod Callees
mod Calls
mod Conditions
mod Elements
mod Law
mod Lists
mod Loops
mod Messages
pub mod Operands
mod Operators
mod Pairs
mod Plain
mod Prefixes
mod Single
pub mod Steps
mod Structures
mod WaitLines
