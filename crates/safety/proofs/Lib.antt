-- Demand 3 from the invariant of a run over the copies, carried over to the records.
pub mod Lent
pub mod Copies
pub mod Carrying
pub mod LoadedState
pub mod Safety
pub mod Ends
