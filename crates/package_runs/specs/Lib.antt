pub mod inner
pub mod Ended
pub mod Outside
