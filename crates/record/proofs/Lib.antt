-- What a sound record says.
pub mod Sound
