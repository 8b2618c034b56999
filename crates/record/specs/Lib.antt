-- The record as a whole (5.1; 01, "The record"): the numbers 1 to 7, what reading it answers, the line lookup.
pub mod Number
pub mod Sound
