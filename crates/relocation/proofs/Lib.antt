-- Laws about relocation: marks, where library bytes lie, the turns that mark, the sound table and set, code without external
-- instructions, the code as rewritten, the copy, and that of a record by itself.
pub mod Marking
pub mod Bounds
pub mod Walking
pub mod Rewriting
pub mod Copying
pub mod Sound
pub mod Plain
pub mod Alone
