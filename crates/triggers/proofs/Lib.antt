-- The ways through the triggers.
pub mod Addresses
pub mod Again
