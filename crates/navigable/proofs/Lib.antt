-- What the code's proofs cite: a law for each way through a rule, the loop that makes the number, and its first row.
pub mod Rules
pub mod Masking
pub mod Firsts
