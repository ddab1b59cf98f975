-- What the nouns say that are an array beside a count, and what may be absent.
pub mod Lists
pub mod Perhaps
