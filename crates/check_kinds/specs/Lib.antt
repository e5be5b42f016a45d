pub mod Over
pub mod Sets
