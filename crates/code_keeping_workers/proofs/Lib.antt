pub mod Opened
pub mod Crewed
pub mod Captured
pub mod Named
