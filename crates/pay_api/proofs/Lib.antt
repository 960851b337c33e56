pub mod Stores
pub mod Results
