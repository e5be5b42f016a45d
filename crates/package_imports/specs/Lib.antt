pub mod Cycles
pub mod Imports
pub mod InPackage
pub mod Order
pub mod Repeats
pub mod inner
