pub mod Asking
mod Deciding
mod Telling
