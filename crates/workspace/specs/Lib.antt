-- What a test over the workspace answers and leaves.
pub mod Checking
