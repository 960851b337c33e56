pub mod Values
pub mod ItemLines
