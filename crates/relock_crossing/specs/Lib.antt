pub mod Relocking
