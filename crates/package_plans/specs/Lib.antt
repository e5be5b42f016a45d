pub mod Planned
pub mod inner
