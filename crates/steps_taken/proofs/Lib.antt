-- Memories compared.
pub mod Changing
