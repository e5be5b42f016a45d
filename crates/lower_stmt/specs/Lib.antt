pub mod Bodies
pub mod Turning
