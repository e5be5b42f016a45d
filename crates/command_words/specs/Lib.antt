pub mod Cases
pub mod Commands
pub mod Laws
pub mod Words
pub mod inner
