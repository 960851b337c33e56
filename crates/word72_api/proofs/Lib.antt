pub mod Answers
pub mod WordCrossed
