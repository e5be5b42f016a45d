pub mod Cycles
pub mod Distances
pub mod inner
pub mod Ordering
