-- What a step's code is held to, and what it hands back.
pub mod Brings
pub mod Wanted
pub mod Holds
pub mod Gives
pub mod Performs
