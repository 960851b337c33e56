pub mod Every
pub mod Patterns
