-- The laws of headers acted upon, of a window's history, of the course of an answer, and the ways through Algorithm 8.
pub mod Acting
pub mod Histories
pub mod Deciding
pub mod Going
pub mod Asking
