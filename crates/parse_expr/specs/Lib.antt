pub mod Listings
pub mod Operators
pub mod Ranks
pub mod Reaches
pub mod Starts
pub mod Suffixes
