pub mod ActionTable
pub mod ExprTable
pub mod Needs
pub mod Operators
