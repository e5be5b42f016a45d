pub mod CodeNeeds
pub mod Combining
pub mod FieldNeeds
pub mod Laws
pub mod Needs
pub mod PlaceNeeds
pub mod RowNeeds
pub mod Stacks
