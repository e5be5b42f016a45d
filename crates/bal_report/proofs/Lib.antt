pub mod Functions
pub mod Reading
pub mod ShapeRules
pub mod Words
