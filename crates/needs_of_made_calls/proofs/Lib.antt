pub mod Answering
pub mod Applying
pub mod Closing
pub mod Expecting
pub mod Giving
