pub mod Assembled
pub mod Cases
pub mod Following
pub mod Laws
pub mod Laying
pub mod Lowered
pub mod Making
pub mod Whole
