pub mod Fillers
pub mod Found
pub mod Named
