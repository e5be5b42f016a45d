pub mod Counts
pub mod Numberings
pub mod Paired
pub mod Plans
pub mod Refusals
pub mod Said
