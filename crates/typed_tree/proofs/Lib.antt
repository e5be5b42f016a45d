pub mod ExprLayers
pub mod Running
pub mod SeenParts
pub mod StmtLayers
pub mod Waited
