-- Every accepted step keeps the tables in order, within their sizes, and every number brought once under its label; in reading order.
pub mod Fresh
pub mod Once
pub mod Kept
pub mod Orderly
pub mod Shared
pub mod Scripts
pub mod Answers
pub mod Steps
