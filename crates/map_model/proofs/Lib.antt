pub mod Bodies
pub mod Expressions
pub mod Keeping
pub mod Marking
pub mod Meeting
pub mod Statements
pub mod Ways
