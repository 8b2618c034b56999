-- The states that fit.
pub mod Fits
