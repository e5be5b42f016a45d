pub mod Begun
pub mod Beside
pub mod Captures
pub mod Ended
pub mod Line
pub mod Signatures
