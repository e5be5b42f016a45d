pub mod inner
pub mod Routes
