pub mod Belonging
pub mod Calling
pub mod KeyPlaces
pub mod Removing
pub mod Stored
