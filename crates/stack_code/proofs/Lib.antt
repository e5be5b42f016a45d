pub mod Numbers
pub mod WorkedHolds
pub mod WorkedWhole
