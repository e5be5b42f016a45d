pub mod Asked
pub mod Deciding
pub mod Indexed
pub mod inner
pub mod Keyed
pub mod KindSets
pub mod LedTo
pub mod Questions
