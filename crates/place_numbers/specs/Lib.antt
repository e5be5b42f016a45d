pub mod inner
pub mod Numbers
pub mod Rowed
