pub mod Locks
pub mod OwnCuts
pub mod OwnHunt
pub mod Beside
pub mod OpenGroup
pub mod Along
pub mod Relocking
pub mod Recovery
