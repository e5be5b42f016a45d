pub mod inner
pub mod Lines
