-- A law about the size of a switch's table.
pub mod Sizes
