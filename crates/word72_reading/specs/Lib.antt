pub mod Values
pub mod Readings
pub mod Promise
