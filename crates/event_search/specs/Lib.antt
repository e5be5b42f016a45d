pub mod inner
pub mod Search
