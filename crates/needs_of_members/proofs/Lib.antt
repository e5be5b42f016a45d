pub mod Answered
pub mod Found
pub mod Fronts
pub mod Over
pub mod Updated
