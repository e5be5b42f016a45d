pub mod Answers
pub mod Laws
pub mod Pieces
pub mod TwinStates
pub mod TwinTypes
