-- The state as frame steps hold it.
pub mod Frames
