pub mod inner
pub mod Held
