pub mod Answering
pub mod Asking
pub mod Fitting
pub mod Implied
pub mod Made
pub mod Opening
pub mod Wanted
