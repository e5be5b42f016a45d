pub mod Came
pub mod Judged
pub mod Wanted
