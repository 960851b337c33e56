pub mod Checking
pub mod Promise
