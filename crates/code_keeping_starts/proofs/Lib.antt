pub mod Spawning
pub mod Starting
