mod Cases
pub mod Parts
