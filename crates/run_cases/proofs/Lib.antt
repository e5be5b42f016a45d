mod Answering
mod Fronts
