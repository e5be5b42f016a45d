pub mod Blanks
pub mod Calling
pub mod Given
pub mod Letters
pub mod Numerals
pub mod Printing
pub mod Reading
pub mod TextParts
