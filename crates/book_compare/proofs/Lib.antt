pub mod FirstByte
pub mod Rising
pub mod Listing
pub mod Merging
pub mod Promises
