-- Steps that look at other modules, completed or not.
pub mod External
