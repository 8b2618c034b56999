-- Steps one after the other.
pub mod Stepping
