-- The operands of an instruction, and the place at a distance.
pub mod Operand
pub mod Distance
