pub mod Texts
mod Sought
