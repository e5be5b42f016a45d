pub mod Arrows
pub mod Giving
pub mod Graphs
pub mod Pairs
pub mod Parts
pub mod Results
