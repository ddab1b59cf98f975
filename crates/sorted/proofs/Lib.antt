-- The laws of tables, in reading order: the order, the members, the edits; then the loops of the code, each a record that is the loop's invariant.
pub mod Never
pub mod Tests
pub mod Linear
pub mod Member
pub mod Edits
pub mod Sorted
pub mod Lookup
pub mod Equal
pub mod Revise
pub mod Count
pub mod Seek
pub mod Open
pub mod First
pub mod Keep
pub mod Revising
pub mod Collect
pub mod Putting
