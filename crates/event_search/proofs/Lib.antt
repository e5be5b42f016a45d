mod Ends
mod Layers
mod Walks
mod Whole
