pub mod Wholes
pub mod Verdicts
