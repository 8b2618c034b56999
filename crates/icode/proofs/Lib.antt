-- Laws about how far a decoded instruction reaches, about the values of a line lookup, and about load and run for the bench.
pub mod Reach
pub mod Values
pub mod Benching
