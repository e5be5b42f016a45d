pub mod Alike
pub mod Beginning
pub mod Hurrying
pub mod Turning
pub mod Written
