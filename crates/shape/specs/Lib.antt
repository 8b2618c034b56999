-- What an instruction finds on the stack, its shape, and what it does with procedures.
pub mod Counts
pub mod Shape
pub mod Linkage
