pub mod Callees
pub mod Errors
pub mod LibraryCalls
pub mod Mappings
pub mod ValueStarts
pub mod WholeWaits
