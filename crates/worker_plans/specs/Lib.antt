pub mod inner
pub mod Sends
