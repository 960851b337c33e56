pub mod Copies
pub mod Stretches
pub mod Lanes
pub mod Effect
