-- The laws of reading by the table of methods.
pub mod Attempts
