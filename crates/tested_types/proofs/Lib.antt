pub mod Listed
pub mod Noting
pub mod Retold
pub mod Written
