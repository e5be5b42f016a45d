pub mod Asked
pub mod CheckedParts
pub mod Formed
