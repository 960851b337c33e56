pub mod Field
pub mod Decoder
