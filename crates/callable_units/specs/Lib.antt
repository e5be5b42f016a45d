pub mod Calling
pub mod inner
