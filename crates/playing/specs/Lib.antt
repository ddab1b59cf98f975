-- What is played of a portion of the input, and what is kept of an input.
pub mod Lines
pub mod Turns
pub mod Portions
pub mod Plays
pub mod Keeps
pub mod Feeds
pub mod Told
