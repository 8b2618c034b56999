-- What a run file prints, how long that is, and run-and-report over memory that is given.
pub mod Report
pub mod Pages
pub mod Buffers
