pub mod Awaited
pub mod Failing
pub mod Futures
pub mod LastWant
