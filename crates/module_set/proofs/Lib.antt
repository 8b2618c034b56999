-- Laws about sets of modules: what a row of the directory says, SIDs and where they stand, tests over every member, imports,
-- being among a list.
pub mod Shares
pub mod Sids
pub mod Counting
pub mod Every
pub mod Linking
pub mod Among
