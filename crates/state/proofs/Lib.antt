-- Laws about the chain of frames, about header words, and what a state that fits keeps.
pub mod Chains
pub mod Headers
pub mod Fitting
