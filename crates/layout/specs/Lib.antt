-- The code cut into instructions, and how the workspace holds the starts.
pub mod Cut
pub mod Workspace
