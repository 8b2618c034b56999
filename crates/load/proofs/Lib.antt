-- Laws about the modules of a set, the words of data frames, the rows of the machine's table, and what load answers.
pub mod Modules
pub mod Framing
pub mod Tabling
pub mod Loading
