pub mod Cases
pub mod Events
pub mod FaultCases
pub mod Faults
pub mod Laws
pub mod Marks
