pub mod Kept
pub mod Laws
pub mod Maps
pub mod Marked
pub mod Points
pub mod Whole
pub mod Written
