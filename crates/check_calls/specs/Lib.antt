pub mod Picking
pub mod Results
