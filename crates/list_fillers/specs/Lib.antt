pub mod Candidates
pub mod Laws
pub mod Marks
