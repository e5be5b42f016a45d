mod Called
mod Marking
