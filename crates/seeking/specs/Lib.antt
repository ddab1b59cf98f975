-- Where a byte is sought.
pub mod Sought
