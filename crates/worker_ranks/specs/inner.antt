pub mod Free
pub mod SideBySide
pub mod Turned
pub mod Vertices
