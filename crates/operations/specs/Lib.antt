pub mod Kinds
pub mod LibraryNumbers
pub mod LibraryTyping
pub mod Rows
pub mod Structures
pub mod Talk
pub mod Typing
pub mod Uses
