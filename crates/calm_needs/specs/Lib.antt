pub mod Calm
pub mod Staying
