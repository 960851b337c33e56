pub mod RelockCrossed
pub mod Steps
