-- The laws of writing and reading.
pub mod Basic
pub mod Numbers
pub mod Terms
pub mod Places
pub mod Steps
pub mod Lists
pub mod Digits
pub mod Leaves
pub mod Atoms
pub mod Filling
pub mod Shallow
pub mod Wholes
pub mod Meaning
pub mod Points
