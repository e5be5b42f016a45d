mod Answering
mod ValueShapes
