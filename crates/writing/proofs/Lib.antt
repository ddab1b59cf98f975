-- How long an event is at most, for all values that the code can hold, and what the writer of a whole event goes by; and that events that went out are read back, and nothing else is read as one.
pub mod Bounds
pub mod Held
pub mod Tops
pub mod CookieRows
pub mod Backs
pub mod Only
