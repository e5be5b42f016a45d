pub mod Gapped
pub mod Tested
