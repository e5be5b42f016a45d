pub mod inner
pub mod Laws
pub mod Standing
pub mod Stopping
pub mod Telling
