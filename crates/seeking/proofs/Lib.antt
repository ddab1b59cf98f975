-- Bytes sought one by one.
pub mod Places
