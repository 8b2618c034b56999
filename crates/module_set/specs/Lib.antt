-- Sets of modules (02, K1): their members, and the numbers 1 to 7 and 17 over a set.
pub mod Members
pub mod Linked
pub mod Rows
