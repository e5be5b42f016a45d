pub mod Begun
pub mod Copying
pub mod Counting
pub mod Playing
pub mod Summing
