pub mod ExprsTold
pub mod Forms
pub mod Operands
pub mod StmtsTold
pub mod Tracing
pub mod Turning
pub mod UnitsTold
