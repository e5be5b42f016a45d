mod Given
mod Leading
mod Telling
