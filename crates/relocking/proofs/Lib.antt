pub mod Waiting
pub mod Relocking
pub mod Moves
pub mod CallLists
