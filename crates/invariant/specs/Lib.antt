-- The configurations of a run, and what they have on the stack and in memory.
pub mod Active
pub mod Shares
pub mod Labels
