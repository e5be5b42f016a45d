pub mod Behind
pub mod Named
