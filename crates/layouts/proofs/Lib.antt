-- The laws of parts of rows, and of Cookie headers.
pub mod Parts
pub mod Pairs
pub mod Headed
