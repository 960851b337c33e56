pub mod Frames
pub mod Instants
