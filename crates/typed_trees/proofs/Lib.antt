pub mod Leaving
pub mod Runs
mod Trees
