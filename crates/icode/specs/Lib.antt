-- How an answer passes through the C interface.
pub mod Interface
pub mod Bench
pub mod Mending
