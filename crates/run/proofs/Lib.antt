-- Which runs are taken.
pub mod Taking
