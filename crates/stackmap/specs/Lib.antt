-- Slots, what each shape of instruction does to a list of them, stack maps, and the walk that finds the least one.
pub mod Slots
pub mod Ways
pub mod StackMap
pub mod Walk
pub mod Theorems
