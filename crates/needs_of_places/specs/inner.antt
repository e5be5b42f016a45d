pub mod Awaited
pub mod Called
pub mod Grouped
pub mod Held
