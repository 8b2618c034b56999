-- Laws about the order of issues.
pub mod Issues
