-- The laws of lines, of first items, of runs, of the loop that plays a portion, and of moving bytes to the front.
pub mod Adding
pub mod Answering
pub mod Firsts
pub mod Nexts
pub mod Running
pub mod Loop
pub mod Meaning
pub mod Telling
