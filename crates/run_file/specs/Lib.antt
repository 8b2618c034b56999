-- The run file.
pub mod RunFile
