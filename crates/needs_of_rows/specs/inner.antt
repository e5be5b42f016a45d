pub mod FirstPairs
pub mod ItemsMade
pub mod Operands
