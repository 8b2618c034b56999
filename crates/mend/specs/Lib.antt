-- Mending a record whose version word or source table the tape has damaged (02, K12).
pub mod Mend
pub mod Mended
