mod Counting
mod Due
mod Falling
mod Loops
mod Plans
mod Stripped
mod Within
