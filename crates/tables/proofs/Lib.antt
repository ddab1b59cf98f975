-- What is said of all nine tables at once.
pub mod Update
pub mod Mentioned
