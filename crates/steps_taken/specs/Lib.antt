-- What a step changed.
pub mod Changes
