pub mod StmtsTurning
