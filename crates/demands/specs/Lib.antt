-- What the checker says: the letter's three demands.
pub mod Fresh
pub mod Third
pub mod Calls
pub mod Demands
