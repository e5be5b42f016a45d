mod Counted
pub mod Finding
pub mod Items
pub mod ListNeeds
mod Paired
