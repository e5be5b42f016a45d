pub mod Calls
pub mod Content
pub mod Faults
pub mod Fronts
pub mod Held
pub mod Streams
