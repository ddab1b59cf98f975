-- What the tables are, in reading order.
pub mod Order
pub mod Table
