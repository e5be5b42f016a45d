pub mod Counted
pub mod Given
pub mod Played
