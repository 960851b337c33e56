pub mod Steps
pub mod Round
pub mod Promises
