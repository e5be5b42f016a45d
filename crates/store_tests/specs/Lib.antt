pub mod Fillers
pub mod Questions
pub mod Tests
