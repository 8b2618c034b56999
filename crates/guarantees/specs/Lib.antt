-- What load, step and run guarantee.
pub mod Guarantees
pub mod Answers
pub mod Runs
