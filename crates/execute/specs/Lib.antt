-- What each instruction does.
pub mod Execute
