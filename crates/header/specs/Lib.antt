-- The header of a record and the places of its parts (5.1; 01, "The record").
pub mod Header
