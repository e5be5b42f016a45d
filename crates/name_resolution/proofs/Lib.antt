pub mod AsciiWords
pub mod Clearing
mod ExcerptSteps
pub mod Excerpting
pub mod Faultless
mod Filtering
mod Inside
pub mod Known
mod MentionLoops
mod Naming
mod Numbers
mod OutlineLoops
pub mod Placed
mod Reaching
mod Seeking
pub mod Standing
