mod CalmLaw
pub mod CalmWords
pub mod Calming
pub mod Flows
pub mod PlacedParts
mod Staying
pub mod Ways
