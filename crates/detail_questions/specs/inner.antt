pub mod Cells
pub mod Group
pub mod Names
