pub mod EntryKeys
pub mod Lookups
pub mod OneShape
pub mod Stability
