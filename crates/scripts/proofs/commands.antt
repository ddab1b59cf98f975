-- The ways through the commands that load nothing.
pub mod Front
