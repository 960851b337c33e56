pub mod Writing
pub mod Sought
pub mod Promise
