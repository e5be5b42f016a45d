mod Beside
pub mod KeyTexts
mod MemberKeys
mod Singles
mod Stopping
