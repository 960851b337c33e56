pub mod Halving
pub mod WholeReading
pub mod Answer
pub mod Promise
