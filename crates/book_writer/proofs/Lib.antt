pub mod Tests
pub mod Stores
pub mod Placed
pub mod Accepted
pub mod Answers
