pub mod AllWays
pub mod Narrowed
pub mod Settled
pub mod TaskWalk
