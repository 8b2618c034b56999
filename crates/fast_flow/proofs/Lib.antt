-- Laws of the steps of flow.
pub mod Standing
pub mod Jumping
pub mod Looping
pub mod Switching
