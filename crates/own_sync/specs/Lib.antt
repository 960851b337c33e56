pub mod Locks
pub mod OwnCut
pub mod Relocking
pub mod Recovery
pub mod OwnOnce
