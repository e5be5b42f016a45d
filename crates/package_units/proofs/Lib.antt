mod Found
pub mod Noting
mod Meeting
