-- A step by its event, and the end of it.
pub mod Ends
