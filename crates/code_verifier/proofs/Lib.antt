pub mod Answered
mod IndexNames
mod KeyNames
pub mod KindShapes
pub mod Leading
mod MadeShapes
mod Ordering
mod PartsNamed
mod SubDecided
pub mod Zipping
