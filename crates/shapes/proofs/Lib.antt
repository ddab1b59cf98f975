-- What is read as the parts that items and events share; which texts are read as an item, and that every number of one is in its range.
pub mod Parts
pub mod Texts
pub mod Ranges
