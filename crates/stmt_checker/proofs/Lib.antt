pub mod Begun
pub mod Counted
pub mod Ended
pub mod Typed
