-- A list of slots held as its height and its topmost label, beside a workspace that shows the lists given so far.
pub mod Tops
