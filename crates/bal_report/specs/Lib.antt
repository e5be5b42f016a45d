pub mod EventText
pub mod RefusalText
pub mod ShapeLayers
pub mod ShapeText
