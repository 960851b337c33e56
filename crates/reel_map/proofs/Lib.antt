pub mod NextCell
