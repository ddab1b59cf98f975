-- The loop that writes rows.
pub mod Passing
