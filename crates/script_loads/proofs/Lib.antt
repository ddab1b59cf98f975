-- The ways through the commands that load something, and how they end.
pub mod Ends
pub mod Ways
