mod Beside
mod Lowered
mod Stopped
