-- Demand 3: the statement, over the definitions that check, load and run promise.
pub mod Demand3
