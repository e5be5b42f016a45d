pub mod Alike
pub mod ImportPlaces
pub mod SourceReadings
pub mod TokenPlaces
pub mod Unread
