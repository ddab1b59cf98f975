-- The laws of cookie lists.
pub mod Names
pub mod Sifting
