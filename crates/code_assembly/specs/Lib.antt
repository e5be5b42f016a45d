pub mod Copies
pub mod Known
pub mod Standing
pub mod Unit
