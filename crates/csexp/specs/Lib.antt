-- Canonical S-expressions: what they are, how they are written and read, what stands at a position of a text, how a value is read off a
-- term, what the code's readers answer, and the limits of a text; how a value is made a term, what a writer leaves in a slice, and what a
-- writer of a whole text does to a buffer.
pub mod Text
pub mod Term
pub mod Read
pub mod At
pub mod Decode
pub mod Answers
pub mod Limits
pub mod Encode
pub mod Puts
pub mod Sent
