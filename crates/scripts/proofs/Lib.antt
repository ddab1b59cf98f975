-- The ways through RUNSCRIPT.
pub mod Ways
