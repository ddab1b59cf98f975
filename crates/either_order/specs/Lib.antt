-- Demand 3: what it says, and an example.
pub mod Statement
pub mod TwoTabs
