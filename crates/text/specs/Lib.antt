-- Printed text.
pub mod Text
