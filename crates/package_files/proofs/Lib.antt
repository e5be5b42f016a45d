pub mod Ascii
mod Cases
pub mod Folders
pub mod Listed
pub mod Sources
