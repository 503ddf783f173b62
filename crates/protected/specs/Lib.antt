pub mod Social
pub mod Layer
pub mod Layers
