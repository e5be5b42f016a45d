pub mod Asking
pub mod WordFaults
