-- The entries of the procedures and their regions (5.1; 01, "The record"), and the libraries of a module (02, K1).
pub mod Entries
pub mod Libraries
pub mod Listed
