-- Laws about the table of codes, lengths, and bytes that are there.
pub mod Rows
pub mod Entries
pub mod Formats
pub mod Present
pub mod Found
