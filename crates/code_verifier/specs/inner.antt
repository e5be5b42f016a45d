pub mod Known
pub mod Pairs
