mod Answering
mod CellTypes
mod Detailed
mod Groups
mod Lacking
mod Named
mod TableAtoms
