pub mod Frames
pub mod Bytes
pub mod Calls
pub mod Stored
