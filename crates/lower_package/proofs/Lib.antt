mod Copied
mod Naming
mod Testing
mod UnitsTurning
