mod Joined
mod Modes
mod Order
mod Sums
