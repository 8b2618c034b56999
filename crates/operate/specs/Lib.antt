-- What the operations on words give (5.2.4.7 to 5.2.4.9).
pub mod Value
pub mod Arithmetic
pub mod Compare
pub mod Sets
pub mod Operation
pub mod Wrapping
pub mod Traps
