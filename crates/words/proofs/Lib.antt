-- Laws about numbers in a list of bytes, values in a row, parts of a list and stores into it, tests, rising numbers and refusals,
-- and what is left of a counted list.
pub mod Bytes
pub mod Series
pub mod Left
pub mod Slices
pub mod Sets
pub mod Tests
pub mod Order
pub mod Refusal
pub mod Arms
