-- The version word of a record (5.1; 01, "The record"), and the order of issues (02, K11).
pub mod Version
pub mod Issue
