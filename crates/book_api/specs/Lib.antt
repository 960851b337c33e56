pub mod Books
pub mod Comparing
pub mod Finding
pub mod Records
