mod Placed
mod Closed
