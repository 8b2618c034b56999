-- Laws about starts and the lowest number.
pub mod Heads
pub mod Lowest
