pub mod Counted
mod Stops
