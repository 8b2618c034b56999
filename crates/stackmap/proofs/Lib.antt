-- The walk decides: what it finds are maps of just what is reached, and where it breaks a region has none.
pub mod Comparing
pub mod Counts
pub mod Reaching
pub mod Placing
pub mod Handing
pub mod Walking
pub mod Entering
pub mod Exact
pub mod Pushing
