pub mod HandedIn
pub mod AnyCut
pub mod Damage
pub mod Written
