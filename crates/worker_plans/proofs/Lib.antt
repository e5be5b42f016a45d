mod Chaining
mod Pairing
mod Same
