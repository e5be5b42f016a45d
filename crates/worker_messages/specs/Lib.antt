pub mod inner
pub mod Defined
