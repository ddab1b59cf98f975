-- What the loop over the cookies of a list hands back; a word with a window's number; the commands in groups, so that no reader tries more than four.
pub mod Gathered
pub mod Named
pub mod Kinds
