-- Parts of rows as numbers; what the numbers of each row say, and where the nine tables lie in a memory.
pub mod Codes
pub mod Jars
pub mod Rows
pub mod Tables
