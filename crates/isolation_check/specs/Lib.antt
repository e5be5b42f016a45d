pub mod inner
pub mod Alone
pub mod Isolated
pub mod Parts
pub mod Typed
pub mod Walk
