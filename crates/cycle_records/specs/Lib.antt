pub mod Instants
pub mod Columns
pub mod Lines
