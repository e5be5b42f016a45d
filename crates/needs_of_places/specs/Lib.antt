pub mod inner
pub mod Lending
pub mod Sites
