-- What a number in a list of bytes is, values in a row, tests of every number, when numbers rise, which refusal is handed back, and what
-- is written into lent lists.
pub mod Series
pub mod Bytes
pub mod Order
pub mod Refusal
pub mod Lent
