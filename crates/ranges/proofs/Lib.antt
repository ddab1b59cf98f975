-- Every number of a browser that items which were read have made is in its range; so what goes out is read back. In reading order.
pub mod Ranged
pub mod Shared
pub mod Scripts
pub mod Answers
pub mod Steps
pub mod Refuted
pub mod Bounded
pub mod Made
pub mod OnTexts
