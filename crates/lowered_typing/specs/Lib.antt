pub mod Landing
pub mod Laws
pub mod Typed
