-- Laws of printing a page into a buffer.
pub mod Printing
pub mod Pages
pub mod Reporting
pub mod OwnMemory
