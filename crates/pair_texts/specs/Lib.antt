pub mod PairText
pub mod Worked
pub mod inner
