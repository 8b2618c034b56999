-- Modules and data frames, program, the state, live and protected addresses, and the registers as instructions change them.
pub mod Modules
pub mod Program
pub mod State
pub mod Memory
pub mod Changes
