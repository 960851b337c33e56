pub mod Slots
pub mod Answers
pub mod Calls
pub mod Promise
