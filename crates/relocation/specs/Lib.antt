-- Relocation (02, K1): where library numbers stand, the relocation table (18), the number of a set, and the copy of the code.
pub mod Places
pub mod Relocation
pub mod Marks
