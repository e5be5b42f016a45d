pub mod Choosing
pub mod Collecting
pub mod Erring
pub mod Gathering
pub mod Naming
pub mod Resulting
pub mod Waiting
