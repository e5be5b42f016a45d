pub mod KindSets
pub mod Over
pub mod Shapes
pub mod TestedTypes
pub mod WideKinds
pub mod Within
