pub mod Copying
pub mod Done
pub mod Speaking
