pub mod Each
pub mod Rule
pub mod Found
pub mod Answers
