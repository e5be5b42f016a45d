mod Defining
mod Turns
