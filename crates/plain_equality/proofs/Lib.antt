pub mod Equal
pub mod Faces
pub mod Holding
pub mod Sides
pub mod Telling
pub mod Working
