pub mod CaseRows
pub mod LibraryOnce
pub mod Once
pub mod PerformsOnce
pub mod Twins
