-- The ways through a DNS answer, and through CLOSECORRUPT.
pub mod Tidy
pub mod Questions
pub mod Emptying
