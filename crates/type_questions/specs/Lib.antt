pub mod Answers
pub mod Asked
pub mod Reading
pub mod Refusals
pub mod Words
