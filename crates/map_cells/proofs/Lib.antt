pub mod Cells
pub mod Joined
