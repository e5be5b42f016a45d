pub mod Finding
pub mod inner
pub mod ListsMade
pub mod PairsTaken
