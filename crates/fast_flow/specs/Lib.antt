-- What a function of flow promises.
pub mod Flow
