pub mod Arguments
pub mod Callables
pub mod Opened
