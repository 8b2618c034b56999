-- Laws about going over the pairs of a source table, about the pairs that are kept and dropped, and about what mending leaves.
pub mod Passing
pub mod Sifting
pub mod Measuring
pub mod Answering
pub mod Pieces
pub mod Keeping
pub mod Restoring
pub mod Dropping
