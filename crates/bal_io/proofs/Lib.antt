pub mod LineReads
pub mod LineTakes
pub mod Lines
pub mod Reading
pub mod Writing
