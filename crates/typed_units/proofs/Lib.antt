pub mod Beginning
pub mod Bodies
pub mod Ending
pub mod Functions
pub mod Parts
pub mod ValueBodies
pub mod Workers
