pub mod Effects
pub mod FunctionLaws
pub mod Heights
pub mod Laws
pub mod Positions
pub mod StmtLaws
