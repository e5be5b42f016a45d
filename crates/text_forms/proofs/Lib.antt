pub mod Adding
pub mod AsciiWords
