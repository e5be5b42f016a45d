pub mod Putting
pub mod SeenAtoms
