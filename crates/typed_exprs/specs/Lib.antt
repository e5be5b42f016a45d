pub mod Actions
pub mod Calls
pub mod Conditions
pub mod Constructors
pub mod Elements
pub mod Lines
pub mod Prefixes
