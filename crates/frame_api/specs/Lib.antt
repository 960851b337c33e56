pub mod Headers
pub mod Pointer
pub mod Slots
