-- Laws about a run unrolled, and about the table of its modules.
pub mod Unrolling
pub mod Tabled
pub mod Passing
pub mod Anew
