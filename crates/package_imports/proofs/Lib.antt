pub mod Cyclic
pub mod Linking
pub mod Moved
pub mod Once
pub mod Others
pub mod Prefixes
pub mod Stepping
pub mod Walking
