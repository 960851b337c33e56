pub mod Finding
pub mod Marks
pub mod AnyCut
pub mod SyncedFrame
pub mod OneTooFew
pub mod Damage
pub mod WrittenWords
pub mod Written
