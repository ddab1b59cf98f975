-- The first row of a navigable set.
pub mod First
