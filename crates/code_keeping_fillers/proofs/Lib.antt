pub mod Done
pub mod Filled
pub mod Fillers
pub mod Filling
pub mod Nesting
pub mod Walks
