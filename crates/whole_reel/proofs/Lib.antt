pub mod ReadingReels
