-- The browser that a memory holds.
pub mod View
