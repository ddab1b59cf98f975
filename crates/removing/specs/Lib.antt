-- What goes, and what is left of the tables then.
pub mod Gone
