pub mod Calling
pub mod inner
pub mod Ready
pub mod Telling
