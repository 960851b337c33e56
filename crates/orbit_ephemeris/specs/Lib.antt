pub mod Record
pub mod Promise
