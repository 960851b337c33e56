pub mod LentPlaces
pub mod Word72
