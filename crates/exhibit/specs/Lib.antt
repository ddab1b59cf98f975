-- The tree, level by level; what showing gives.
pub mod Levels
pub mod Exhibits
