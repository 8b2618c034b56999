-- The words of a pair.
pub mod Pairs
