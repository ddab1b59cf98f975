-- What a look at a reached window comes to; the two directions of a history.
pub mod Display
pub mod Directions
