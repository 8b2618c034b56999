-- How many words are pushed, what a step leaves, and that it leaves a state that fits.
pub mod Pushing
pub mod Outcomes
pub mod Intact
pub mod Steady
pub mod Preservation
pub mod Running
pub mod Decoding
pub mod Copying
