pub mod Refusals
pub mod Instants
pub mod Known
