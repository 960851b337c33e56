pub mod Cycles
pub mod Gathering
pub mod Promise
