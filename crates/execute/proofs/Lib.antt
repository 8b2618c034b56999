-- Laws about the words at the top of the stack, and what an instruction can do.
pub mod Top
pub mod Acts
