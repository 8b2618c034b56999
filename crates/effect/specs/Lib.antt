-- What the instructions on data do.
pub mod Data
