pub mod Drafting
pub mod Turning
