pub mod Differences
pub mod Answer
pub mod Promise
pub mod Merge
