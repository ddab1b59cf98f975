-- What a status number says.
pub mod Status
