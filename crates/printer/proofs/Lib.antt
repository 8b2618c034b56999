-- What reading and printing answer.
pub mod Answers
