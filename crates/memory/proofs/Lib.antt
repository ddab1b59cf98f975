-- The laws of tables in a memory: the loops that move numbers; rows of numbers; what a change leaves alone; the loops over rows.
pub mod Chunks
pub mod Table
pub mod Parts
pub mod Frame
pub mod Loops
pub mod Written
pub mod Staying
pub mod Heads
pub mod Changing
pub mod Picking
pub mod Both
