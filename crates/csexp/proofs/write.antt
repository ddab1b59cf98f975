-- The laws of putting bytes into a slice, and of encoders.
pub mod Over
pub mod Steps
pub mod Leaves
pub mod Backs
pub mod Only
pub mod Bounds
pub mod Tops
