-- The laws of what a script's step stands on and stores.
pub mod Stores
