pub mod Changed
pub mod Fitting
pub mod Making
