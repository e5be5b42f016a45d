pub mod Growing
mod Noted
mod Strict
mod Whole
