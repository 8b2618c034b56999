-- Laws about changes, the loops that cut, and cutting against marking.
pub mod Updates
pub mod Turns
pub mod Cutting
pub mod Marking
