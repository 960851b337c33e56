pub mod BookCrossed
pub mod ComparedCrossed
