pub mod Claims
pub mod Lines
pub mod Units
