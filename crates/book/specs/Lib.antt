pub mod Layout
pub mod Faults
pub mod Header
pub mod Sought
