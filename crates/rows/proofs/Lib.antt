-- The loops over any table; a row put in; where no row speaks of a label.
pub mod Slices
pub mod Tests
pub mod Unasked
pub mod Places
pub mod Clean
