pub mod Crossed
pub mod LockCrossed
