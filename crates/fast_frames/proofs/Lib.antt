-- Frame steps that complete.
pub mod Calling
pub mod Allocating
pub mod Decoding
