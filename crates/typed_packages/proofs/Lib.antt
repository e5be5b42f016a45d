pub mod Covered
pub mod Law
pub mod Named
pub mod Numbered
pub mod Steps
pub mod Tracking
