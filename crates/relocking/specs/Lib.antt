pub mod Relock
