-- Laws about text that is written piece by piece, and about decimal digits.
pub mod Writing
