pub mod Answering
pub mod Beginning
pub mod Capturing
pub mod Ending
pub mod Finishing
pub mod Naming
pub mod Opening
pub mod Working
