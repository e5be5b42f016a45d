pub mod Done
pub mod Items
pub mod Keys
pub mod Storing
