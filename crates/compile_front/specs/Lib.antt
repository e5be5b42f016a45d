pub mod Codes
pub mod Front
pub mod Mains
pub mod Told
