-- Check, load and run of a record joined in one call.
pub mod Joined
