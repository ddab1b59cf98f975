-- What a request that goes out leaves in the tables, and what closing leaves of them.
pub mod Waits
pub mod Emptied
