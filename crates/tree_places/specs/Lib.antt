pub mod Assigned
pub mod Breaks
pub mod ExprPlaces
pub mod Gathered
pub mod NameOf
pub mod StmtPlaces
pub mod UsedInExprs
pub mod UsedInStmts
