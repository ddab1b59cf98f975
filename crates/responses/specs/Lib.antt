-- What the headers of an answer do, what a new document finds and does, the course of an answer, and what it does on it.
pub mod Acted
pub mod Entered
pub mod Course
pub mod Taken
