pub mod SameWords
pub mod Walking
