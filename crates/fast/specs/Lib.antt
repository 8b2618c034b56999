-- How the fast loop holds steps that complete.
pub mod Fast
pub mod Leaves
