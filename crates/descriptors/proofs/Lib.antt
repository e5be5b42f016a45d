pub mod ChoicesBelow
mod AddedDrafts
pub mod Drafting
pub mod FieldNames
pub mod LanguageTypes
pub mod Making
pub mod Readings
mod Numbering
pub mod Walks
mod OtherForms
pub mod OwnGroup
pub mod Yielding
