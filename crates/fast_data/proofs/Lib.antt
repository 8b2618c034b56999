-- Laws of the arms that load and store.
pub mod Arms
