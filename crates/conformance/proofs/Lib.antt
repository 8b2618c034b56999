-- The table of cases stands, and the page.
pub mod Table
pub mod Page
