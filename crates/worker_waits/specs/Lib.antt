pub mod Agreement
pub mod Laws
pub mod Left
pub mod Planned
pub mod Standing
pub mod Waiting
