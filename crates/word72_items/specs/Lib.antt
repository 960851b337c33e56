pub mod Layout
pub mod ItemTable
pub mod CodeTables
pub mod Answers
pub mod Promise
