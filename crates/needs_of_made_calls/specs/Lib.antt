pub mod Applied
pub mod Expected
pub mod Making
