-- Laws about the stack words that an instruction finds, and about where decoded shapes come from.
pub mod Counting
pub mod Origins
