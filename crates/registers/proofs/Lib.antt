-- Laws about links of active calls, about protected addresses, and about the registers as words.
pub mod Signs
pub mod Links
pub mod Protected
pub mod Rows
pub mod Bases
pub mod Words
