pub mod Alone
mod Clearing
mod Entering
mod Hands
mod Keeping
mod Law
mod Seeing
mod Stmts
mod Values
