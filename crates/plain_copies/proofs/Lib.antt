pub mod Copying
pub mod Giving
pub mod Resting
pub mod Sums
pub mod Turns
