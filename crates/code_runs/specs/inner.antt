pub mod Hurries
pub mod Turns
