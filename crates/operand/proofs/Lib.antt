-- Laws about widened numbers.
pub mod Extend
