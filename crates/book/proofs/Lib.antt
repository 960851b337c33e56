pub mod Said
pub mod Headers
pub mod Tests
pub mod Answered
pub mod Searches
pub mod Ways
pub mod Viewing
pub mod Holding
