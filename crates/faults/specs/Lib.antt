-- The numbers 12 to 14: the rules, and how the code finds the lowest in one pass.
pub mod Faults
pub mod OnePass
