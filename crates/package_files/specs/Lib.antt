pub mod Listings
pub mod Names
