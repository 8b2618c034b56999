-- Laws about the ranges of a SWITCH_X.
pub mod Ranges
