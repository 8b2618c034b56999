-- The demands, collected.
pub mod Sentences
pub mod InTurn
pub mod Collected
