pub mod Counts
pub mod Promise
