pub mod Making
pub mod inner
