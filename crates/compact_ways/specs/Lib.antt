-- What an instruction gives to its successors, over heights and topmost labels.
pub mod Ways
