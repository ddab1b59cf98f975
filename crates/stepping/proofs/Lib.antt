-- The laws of steps: the numbers that a program brings, what a change carries, the ways in which a step ends.
pub mod Bringing
pub mod Exact
pub mod Spare
pub mod Sends
pub mod Carry
pub mod Ways
