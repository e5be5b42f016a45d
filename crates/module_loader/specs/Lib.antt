pub mod Faults
pub mod Files
pub mod Loading
pub mod Packages
pub mod Targets
pub mod inner
