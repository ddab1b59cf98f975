-- What the tests of the tables share.
pub mod Laws
