-- The laws of the browser that a memory holds.
pub mod Frame
pub mod Changes
pub mod Closed
pub mod Tests
