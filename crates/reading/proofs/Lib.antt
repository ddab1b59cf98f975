-- The laws of whole texts; of choices.
pub mod Takings
pub mod Triggers
