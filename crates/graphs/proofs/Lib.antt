mod Greedy
pub mod Levels
mod Marks
pub mod Noting
mod Ordered
mod Paths
pub mod Rows
pub mod TurnedRound
mod Turning
mod Walking
