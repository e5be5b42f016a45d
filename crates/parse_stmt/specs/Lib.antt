pub mod Ahead
pub mod Chosen
pub mod inner
pub mod Reaches
pub mod Shapes
pub mod Starts
