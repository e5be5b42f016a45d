pub mod Blocked
pub mod Came
pub mod Effects
pub mod Entries
pub mod ProgramFacts
pub mod Held
pub mod Strands
pub mod Values
