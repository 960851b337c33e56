pub mod Halving
pub mod WholeReading
pub mod Promises
