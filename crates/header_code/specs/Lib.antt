pub mod Field
pub mod Code
pub mod Generator
pub mod Symbols
pub mod Decoder
