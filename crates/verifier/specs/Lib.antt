-- The check: its numbers and what it leaves of the workspace; what it accepts, as a statement; and the walk as the code makes it.
pub mod Check
pub mod Exact
pub mod Handing
pub mod Examine
pub mod Tables
pub mod Lent
