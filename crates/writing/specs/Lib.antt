-- What the writer of events leaves in a buffer, what it answers, and how large the numbers of a message are; how an event that went out is read.
pub mod Wrote
pub mod Sized
pub mod Outgoing
