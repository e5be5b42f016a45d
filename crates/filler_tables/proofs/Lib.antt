mod Alike
mod Leading
mod Marking
mod OneChoice
mod Rows
mod SimpleShapes
mod Tabled
mod ValueKinds
