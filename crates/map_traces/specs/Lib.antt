pub mod Constructs
pub mod Events
pub mod Laws
pub mod Tracing
pub mod Trees
