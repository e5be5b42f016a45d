pub mod Assigning
pub mod Branches
pub mod Branching
pub mod ElementReads
pub mod ElementUpdates
pub mod Ends
mod FlowPieces
pub mod Items
pub mod Keeping
pub mod Looping
pub mod Matching
pub mod NameUpdates
pub mod Seeing
pub mod Storing
pub mod Updating
pub mod Words
