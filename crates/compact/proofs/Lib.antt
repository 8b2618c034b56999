-- Slots taken off one by one.
pub mod Lowering
