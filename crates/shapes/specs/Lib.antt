-- The shapes of 01: what an item is, and how an event that goes out is written.
pub mod Nouns
pub mod Words
pub mod Items
pub mod Texts
pub mod Events
pub mod Ranges
