pub mod Cases
pub mod Changing
pub mod Knowing
pub mod Meeting
pub mod Narrower
pub mod Quiet
pub mod Runs
pub mod Slots
