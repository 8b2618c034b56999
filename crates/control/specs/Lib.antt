-- What jumps, loops, switches and calls do.
pub mod Control
pub mod Loops
