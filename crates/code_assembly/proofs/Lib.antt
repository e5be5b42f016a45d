pub mod Agreeing
mod Loops
pub mod Stocks
