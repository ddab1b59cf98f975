-- Which cookies may be set at all, what a script hears next, the document that a command means, and what every script step stores.
pub mod Setting
pub mod Next
pub mod Gotten
pub mod Stored
