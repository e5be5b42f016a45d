pub mod Stripping
pub mod Needing
