mod FlowPieces
mod Joined
mod Layered
mod LoopFlows
mod LoopPieces
mod MatchFlows
pub mod Order
pub mod Pieces
pub mod Rows
mod Sets
mod StmtFlows
mod StmtPieces
mod Worked
