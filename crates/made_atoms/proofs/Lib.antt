pub mod Groups
pub mod OneByOne
