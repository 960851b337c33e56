pub mod Text
pub mod Lines
pub mod Words
pub mod Numbers
pub mod Files
