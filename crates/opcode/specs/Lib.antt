-- Instructions as 5.2.4 lists them: the table of codes, lengths, and decoding.
pub mod Codes
pub mod Table
pub mod Sheet
pub mod Length
pub mod Decode
