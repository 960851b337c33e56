pub mod Columns
pub mod Promise
