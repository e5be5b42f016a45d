pub mod Adding
pub mod ExprLayers
pub mod Forms
pub mod Kept
pub mod Spelling
pub mod StmtLayers
pub mod TypeLayers
