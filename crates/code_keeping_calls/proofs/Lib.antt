pub mod Arrows
pub mod Calls
pub mod Passing
