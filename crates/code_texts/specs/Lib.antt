pub mod CodeText
pub mod Worked
