mod Onward
mod Passing
mod Valuing
