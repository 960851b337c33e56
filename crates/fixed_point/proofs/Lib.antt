pub mod Signs
pub mod Doubles
pub mod Exactness
