pub mod Bodies
pub mod Expressions
pub mod Mapping
pub mod Parting
pub mod Statements
