pub mod Bits
pub mod Lowest
pub mod Areas
pub mod Refusals
pub mod Answered
pub mod Keeping
pub mod Promises
