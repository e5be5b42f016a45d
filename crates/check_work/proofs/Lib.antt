pub mod Making
pub mod Noting
pub mod Seeing
pub mod Slots
pub mod Taking
pub mod Updating
