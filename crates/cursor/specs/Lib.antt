-- Where a cursor stands after a word, and the two words from a place on.
pub mod Cursor
