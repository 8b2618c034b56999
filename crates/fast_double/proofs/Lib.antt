-- Laws of the arms that load and store two words, and of the forms of operands.
pub mod Arms
pub mod Forms
