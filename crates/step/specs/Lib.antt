-- A step.
pub mod Step
pub mod Ready
