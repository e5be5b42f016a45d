pub mod Counted
pub mod Descending
pub mod Doing
