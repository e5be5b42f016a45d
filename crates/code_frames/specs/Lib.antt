pub mod Asking
pub mod Frames
pub mod Laws
pub mod Programs
pub mod inner
