pub mod Hearing
pub mod Standings
