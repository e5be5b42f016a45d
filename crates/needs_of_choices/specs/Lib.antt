pub mod ByKeys
pub mod Choosing
