pub mod Listings
pub mod Loops
pub mod Nesting
pub mod Reaches
pub mod Starts
pub mod Suffixes
