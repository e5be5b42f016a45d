pub mod Anonymous
pub mod Constants
pub mod Defined
pub mod Initials
pub mod Rests
pub mod Results
