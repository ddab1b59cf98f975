-- What a step on text gives.
pub mod Writes
pub mod Rehearses
