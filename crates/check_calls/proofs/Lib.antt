pub mod GivenResults
pub mod Parameters
pub mod PickedMethods
