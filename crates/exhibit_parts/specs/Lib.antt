-- What of the rows of a table is shown.
pub mod Kept
