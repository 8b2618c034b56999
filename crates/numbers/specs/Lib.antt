-- The numbers handed back (01, "Numbers handed back"; 02, K1).
pub mod Number
pub mod TrapNumber
