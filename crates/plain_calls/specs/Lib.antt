pub mod Callees
pub mod Making
