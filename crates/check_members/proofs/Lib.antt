pub mod Keying
pub mod OnlyShapes
pub mod StoredChoices
pub mod TakenMembers
