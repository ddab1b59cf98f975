-- The laws of headers that stand in any order, each at most once; of a number that is a status.
pub mod Heading
pub mod Statuses
