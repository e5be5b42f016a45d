pub mod EachKeeps
pub mod Keeping
pub mod KeepingNeeds
pub mod KeepingStmts
pub mod Law
pub mod StmtTrees
pub mod Trees
