-- Laws about numbers: how large a result can be, when it is a word, which number is the modulus, and which traps there are.
pub mod Sizes
pub mod Fitting
pub mod Operands
pub mod Remainders
pub mod Naturals
pub mod Traps
pub mod Wrapping
