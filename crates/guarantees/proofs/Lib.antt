-- The guarantees, proved.
pub mod Refusals
pub mod Steps
pub mod Runs
pub mod Numbers
