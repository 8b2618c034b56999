-- Steps to other modules that complete.
pub mod Going
pub mod Decoding
pub mod Data
