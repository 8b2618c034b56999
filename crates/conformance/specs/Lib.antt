-- 01's "Twelve plates for the wall": the cases marked P; and its page.
pub mod Cases
pub mod Page
