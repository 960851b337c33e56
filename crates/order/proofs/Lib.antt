pub mod Rooms
mod Tested
