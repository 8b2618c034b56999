-- The tables behind SWITCH and SWITCH_X.
pub mod Switch
