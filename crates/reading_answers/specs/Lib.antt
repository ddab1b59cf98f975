-- The headers of an answer, one by one.
pub mod Headers
