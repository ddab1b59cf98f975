-- What a step on text is held to, on any texts, memories and buffers.
pub mod Told
pub mod Ways
pub mod Emptied
pub mod One
