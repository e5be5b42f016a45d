pub mod Bodies
pub mod Functions
pub mod Peers
pub mod Workers
