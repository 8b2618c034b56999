-- Where control may go from an instruction.
pub mod Successors
