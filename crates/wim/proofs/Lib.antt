-- What is proved of the rules: 01's points and runs by computing, where runs come to, then the navigable set.
pub mod Computed
pub mod Made
pub mod Numbers
pub mod Pigeon
pub mod Walks
pub mod Navigable
pub mod Mask
pub mod NavigableMask
