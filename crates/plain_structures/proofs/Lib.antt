pub mod Adding
pub mod Doing
pub mod Finding
pub mod Making
pub mod Standing
