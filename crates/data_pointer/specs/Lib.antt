pub mod Sequence
pub mod Answers
pub mod Promise
