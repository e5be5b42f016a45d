pub mod inner
pub mod Manifests
pub mod Names
