-- What a step in place owes.
pub mod Acts
