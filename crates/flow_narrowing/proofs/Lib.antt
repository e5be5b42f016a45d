pub mod Belonging
pub mod Failing
pub mod Joining
pub mod MetWays
pub mod Undoing
pub mod Written
