pub mod Files
pub mod Places
pub mod Sources
pub mod Told
