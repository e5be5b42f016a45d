pub mod Described
pub mod Descriptors
pub mod Drafts
pub mod Language
pub mod Naming
pub mod Steps
