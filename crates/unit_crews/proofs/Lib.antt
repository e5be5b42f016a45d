pub mod Alone
pub mod Crewing
pub mod Noting
