-- The nine tables: what their rows are, in which order they stand, how many there may be, and which numbers stand in them.
pub mod Nouns
pub mod Tables
pub mod Labels
pub mod Rows
pub mod View
