pub mod Actions
pub mod Trees
