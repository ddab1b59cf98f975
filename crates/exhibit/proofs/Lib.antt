-- The tree, level by level; what showing goes by, on any memories and buffers; that its promise leaves nothing free.
pub mod Trees
pub mod Exhibiting
pub mod One
