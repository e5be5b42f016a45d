pub mod Answered
pub mod ItemSteps
pub mod LoopSteps
