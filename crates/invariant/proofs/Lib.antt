-- Every accepted step, of whatever item, keeps its tables in order, each number brought once (Numbered), windows and documents rooted (Rooted).
pub mod Opened
pub mod Numbered
pub mod Rooted
