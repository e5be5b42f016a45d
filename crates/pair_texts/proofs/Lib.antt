pub mod Adding
pub mod Counting
pub mod Named
pub mod Standing
pub mod Worked
