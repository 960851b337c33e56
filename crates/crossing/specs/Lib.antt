pub mod Crossing
pub mod Locking
