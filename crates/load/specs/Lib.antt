-- The modules of a set, and load.
pub mod Modules
pub mod Loaded
pub mod Load
