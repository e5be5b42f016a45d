pub mod Added
pub mod Both
pub mod FutureNeeds
pub mod inner
pub mod Kept
pub mod Limits
