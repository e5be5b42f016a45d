-- what the tokens of a text are
pub mod Spellings
pub mod Lexemes
pub mod Lexes
-- what the parts of the crate read
pub mod Groups
pub mod Runs
pub mod Words
pub mod Numbers
pub mod Strings
pub mod Firsts
