-- Laws about pairs, which of them covers an offset, and the span of a line.
pub mod Pairs
pub mod Covering
pub mod SpanLaws
