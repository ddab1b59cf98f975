-- What the step under its name for C gives.
pub mod Steps
