-- What a function of operations promises.
pub mod Operations
