-- What a listing shows of an instruction.
pub mod Mnemonic
