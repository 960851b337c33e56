pub mod Agreeing
pub mod Joining
pub mod Lanes
pub mod Effect
