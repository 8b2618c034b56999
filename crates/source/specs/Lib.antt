-- The source table of a record (5.1; 01, "The record"), and the span of a line (02, K4).
pub mod Source
pub mod Span
pub mod Spans
