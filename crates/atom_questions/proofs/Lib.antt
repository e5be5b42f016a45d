mod Arguments
mod FieldAtoms
mod FutureAtoms
mod Giving
pub mod NeedsKept
pub mod Stops
