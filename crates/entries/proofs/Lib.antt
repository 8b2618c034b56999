-- Laws about libraries as code holds them, the bounds and the order of entries and regions.
pub mod Rows
pub mod Bounds
pub mod Ordered
